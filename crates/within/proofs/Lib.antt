pub mod PayLaws
pub mod QueueLaws
pub mod PassWithinLaws
pub mod CallWithinLaws
