-- What contracts say of the index from state numbers to nodes.
pub mod Nodes
pub mod Numbers
