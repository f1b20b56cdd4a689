mod HPlanRows
mod PrintableRows
