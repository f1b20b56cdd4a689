mod Rows
mod Values
mod CallRows
mod NetworkRows
