mod TwoBranches
mod BrokenMachines
