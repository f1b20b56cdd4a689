mod Folders
