-- Fits by numbers are fits.
pub mod PairedLists
pub mod SaidLines
pub mod KnownWorks
pub mod WantedFits
pub mod SameFits
pub mod AllFits
