mod ChildOfAnAction
mod Defects
mod OneRun
