pub mod MarginProofs
