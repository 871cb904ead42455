use Rattle.std.proofs.Common.{inl, inr, refl}
use Rattle.ember_expr.specs.Formula.{formula_of}
use Rattle.ember_arrays.proofs.SolidArrays.{solid_means_formula}
use Rattle.ember_arrays.proofs.Statuses.{asking_cause_is_shown, fault_status_is_shown, named_mesh_is_there}
use Rattle.ember_arrays.proofs.outcome.solid_for.Goals as goal

pub returns-in-Err-clause-stop : goal.returns-in-Err-clause-stop
returns-in-Err-clause-stop c = inl (refl, c.in-Err.ensures.cause)

pub returns-in-Err-clause-shown : goal.returns-in-Err-clause-shown
returns-in-Err-clause-shown c = asking_cause_is_shown c.args.request.now c.args.step.now c.in-Err.status c.in-Err.ensures.cause

pub returns-in-Ok-array_solid-clause-solid : goal.returns-in-Ok-array_solid-clause-solid
returns-in-Ok-array_solid-clause-solid c =
    let formula = formula_of c.in-Ok.asked.expr in
    let is = c.in-Ok-array_solid.ensures.solid in
    record {
      wanted = c.in-Ok.asked.wanted;
      formula = formula;
      asks = c.in-Ok.ensures.asks;
      is = is;
      means = solid_means_formula c.args.request.now.meshes.now formula c.in-Ok.asked.wanted c.args.request.now.digits
          c.args.request.now.wants_sources c.in-Ok-array_solid.solid c.in-Ok.ensures.asks.expression.bounded is;
    }

pub status_of-requires : goal.status_of-requires
status_of-requires c =
    named_mesh_is_there c.args.request.now.meshes.now (formula_of c.in-Ok.asked.expr) c.in-Ok.asked.wanted c.args.request.now.digits
    c.in-Err-array_solid.fault c.in-Ok.ensures.asks.few c.in-Err-array_solid.ensures.fault

pub returns-clause-stop : goal.returns-clause-stop
returns-clause-stop c =
    inr (record {
      wanted = c.in-Ok.asked.wanted;
      formula = formula_of c.in-Ok.asked.expr;
      asks = c.in-Ok.ensures.asks;
      fault = c.in-Err-array_solid.fault;
      is_fault = c.in-Err-array_solid.ensures.fault;
      status_is = c.status_of.ensures;
      place_is = c.place_of-place.ensures;
    })

pub returns-clause-shown : goal.returns-clause-shown
returns-clause-shown c =
    fault_status_is_shown c.args.request.now.meshes.now (formula_of c.in-Ok.asked.expr) c.in-Ok.asked.wanted c.args.request.now.digits
    c.in-Err-array_solid.fault c.status_of.result c.in-Ok.ensures.asks.few c.in-Err-array_solid.ensures.fault c.status_of.ensures
