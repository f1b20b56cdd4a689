pub mod OrderFormulas
pub mod OrderNames
pub mod OrderMeaning
pub mod Orders
pub mod Meaning
pub mod NamedOrders
