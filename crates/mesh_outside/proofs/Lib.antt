pub mod HeldNames
pub mod NamesInFolders
pub mod MapFiles
pub mod SeveralFiles
mod Halves
mod RunWeights
