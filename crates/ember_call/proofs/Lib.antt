mod OwnNames
mod Known
mod Ends
mod MeshKnown
mod MeshEnds
