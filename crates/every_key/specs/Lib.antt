pub mod EveryKey
