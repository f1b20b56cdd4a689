-- What the text of a tree stands on: the steps that are taken, and the text that is put on a sheet.
pub mod StepsTaken
pub mod Texts
