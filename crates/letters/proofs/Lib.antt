pub mod EveryByte
