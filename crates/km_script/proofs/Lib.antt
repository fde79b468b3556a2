pub mod Pieces
pub mod Cuts
pub mod Foreign
pub mod Noted
pub mod Bases
pub mod LineLaws
pub mod RuleLaws
