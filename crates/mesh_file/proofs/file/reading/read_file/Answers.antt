use Rattle.mesh_file.proofs.StlFiles.{stl_files_have_one_reader, stl_names_have_its_reader}
use Rattle.mesh_file.proofs.file.reading.read_file.Goals as goal

pub returns-in-BinaryStl-clause-ok : goal.returns-in-BinaryStl-clause-ok
returns-in-BinaryStl-clause-ok c = rw (stl_files_have_one_reader c.args.name.now c.args.bytes.now c.format_of.result
    c.format_of.ensures c.in-BinaryStl.is) c.read_stl_file.ensures.ok

pub returns-in-BinaryStl-clause-fault : goal.returns-in-BinaryStl-clause-fault
returns-in-BinaryStl-clause-fault c = rw (stl_files_have_one_reader c.args.name.now c.args.bytes.now c.format_of.result
    c.format_of.ensures c.in-BinaryStl.is) c.read_stl_file.ensures.fault

pub returns-in-CutOffStl-clause-ok : goal.returns-in-CutOffStl-clause-ok
returns-in-CutOffStl-clause-ok c = rw (stl_names_have_its_reader c.args.name.now c.args.bytes.now c.format_of.result
    c.format_of.ensures c.in-CutOffStl.is) c.read_cut_off_file.ensures.ok

pub returns-in-CutOffStl-clause-fault : goal.returns-in-CutOffStl-clause-fault
returns-in-CutOffStl-clause-fault c = rw (stl_names_have_its_reader c.args.name.now c.args.bytes.now c.format_of.result
    c.format_of.ensures c.in-CutOffStl.is) c.read_cut_off_file.ensures.fault
