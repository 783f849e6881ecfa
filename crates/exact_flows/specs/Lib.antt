pub mod AddedFlows
