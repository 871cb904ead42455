use Rattle.ember_io.specs.Calls.{sink_call}
use Rattle.mesh_run.proofs.ErrTexts.{text_is_taken}
use Rattle.mesh_run.proofs.writing.say.Goals as goal

pub returns : goal.returns
returns g c =
    let e = c.write_all.ensures in
    text_is_taken (sink_call g.E.Sink.taken g.E.Sink.flushed g.E.Sink.faults c.args.err.now c.write_all.new.sink)
    c.args.text.now c.write_all.result e.cause e.taken e.prefix
