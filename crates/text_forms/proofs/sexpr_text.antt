mod Depth
mod Popped
mod Found
mod Numbered
mod Passed
mod Indexed
mod Entries
mod FromPosition
