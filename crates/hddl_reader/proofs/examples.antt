mod Values
mod DomainRows
mod NetworkRows
mod ProblemRows
