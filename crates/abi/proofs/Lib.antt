pub mod CodeLaws
pub mod BranchLaws
