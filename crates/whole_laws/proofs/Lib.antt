pub mod CeilDiv
