use Rattle.mesh_texts.proofs.texts.put_move.Goals as goal

pub put_size-requires-clause-size : goal.put_size-requires-clause-size
put_size-requires-clause-size c = c.args.moved.now.small

pub put_size-requires-clause-places : goal.put_size-requires-clause-places
put_size-requires-clause-places c = c.args.moved.now.few
