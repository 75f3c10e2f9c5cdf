pub mod Nodes
pub mod NodesView
pub mod Contents
pub mod Queue
pub mod Lent
pub mod Moving
