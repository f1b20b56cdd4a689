-- Why the condition is there.
mod WithoutHeir
