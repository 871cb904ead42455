pub mod Reports
pub mod KeptLists
pub mod Counts
pub mod FacesOfSolids
pub mod SolidRuns
pub mod Findings
pub mod BroadRuns
