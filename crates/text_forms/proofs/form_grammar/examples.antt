mod Formulas
mod Networks
mod Domains
mod Problems
mod Plans
mod Beginnings
