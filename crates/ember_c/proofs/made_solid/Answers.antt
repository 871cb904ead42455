use Rattle.std.proofs.Common.{inl, inr, refl}
use Rattle.ember_c.proofs.made_solid.Goals as goal

pub returns-in-Ok : goal.returns-in-Ok
returns-in-Ok c = inl (record {
  request = record { meshes = c.args.meshes; expression = c.args.expression; digits = c.digits_in.result; wants_sources = c.wants_sources.result };
  is_request = record { meshes_are = refl; expression_is = refl; digits_are = c.digits_in.ensures; sources_are = c.wants_sources.ensures };
  wanted = c.in-Ok.step;
  is_step = c.in-Ok.ensures.step;
  outcome = c.boolean.result;
  is_outcome = c.boolean.ensures.outcome;
  is_solid = c.solid_of.ensures;
})
