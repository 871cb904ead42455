use Rattle.ember_verdict.proofs.OneSolid.{bits_of_faces, bits_of_faces_nearby}
use Rattle.ember_verdict.proofs.one_solid.lattices_sample_the_solid.Goals as goal

pub returns-clause-clear : goal.returns-clause-clear
returns-clause-clear c = λ tris meshes formula scene faces solid size text lattice. bits_of_faces tris formula solid.file
    solid.document meshes scene size text lattice faces solid.read

pub returns-clause-nearby : goal.returns-clause-nearby
returns-clause-nearby c = λ tris meshes formula scene faces solid size text lattice. bits_of_faces_nearby tris formula
    solid.file solid.document meshes scene size text lattice faces solid.read
