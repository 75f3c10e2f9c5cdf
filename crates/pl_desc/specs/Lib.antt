pub mod Rows
pub mod Vacant
pub mod TableView
pub mod TablesView
pub mod Descs
pub mod Ends
pub mod Slots
pub mod DescsView
