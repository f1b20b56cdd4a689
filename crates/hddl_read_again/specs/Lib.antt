pub mod ReadAgain
