pub mod OneTask
mod ShownOneTask
