pub mod RingState
