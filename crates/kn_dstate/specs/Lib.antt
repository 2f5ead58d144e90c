-- The definitions of dstates, histories and the graph.
pub mod HistoryCode
pub mod Histories
pub mod Places
pub mod Graphs
pub mod Gathered
pub mod Members
pub mod Changes
