-- The outcomes of a call over arrays
use Rattle.std.proofs.Common.{◌≡◌, ◌≢◌, ℕ, None, sym, ap, ◌∙◌, arith, inl, inr}
use Rattle.mesh_refusal.specs.Numbers.{number_of}
use Rattle.mesh_refusal.specs.declared.status.Status.{Status}
use Rattle.mesh_words.specs.declared.command.WantedStep.{WantedStep}
use Rattle.ember_arrays.specs.declared.asked.ArrayRequest.{ArrayRequest}
use Rattle.ember_arrays.specs.declared.outcome.ArrayOutcome.{ArrayOutcome}
use Rattle.ember_arrays.specs.declared.solid.ArraySolid.{ArraySolid}
use Rattle.ember_arrays.specs.Outcomes.{HasSolid, IsArrayOutcome, IsArrayStop, IsRefusalWith, IsReportedWith, IsSolidFor, words_of}
use Rattle.ember_arrays.proofs.Statuses.{stop_has_number}

module _ (request : ArrayRequest) (step : WantedStep) (outcome : ArrayOutcome) where
  -- a solid with its report is an outcome
  pub report_is_outcome : (solid : ArraySolid) → IsSolidFor request step solid → IsReportedWith (words_of request step) solid outcome →
      IsArrayOutcome request step outcome
  report_is_outcome solid is (inl reported) = inl (record {
    solid = solid;
    there = reported.there;
    is = is;
    status = reported.status;
    mesh = reported.mesh;
    place = reported.place;
    report = reported.report;
  })
  report_is_outcome solid is (inr nothing) = inr (inr nothing)

  -- so is why there is none
  pub refusal_is_outcome : (status : Status) (place : ℕ) → IsArrayStop request step status place →
      IsRefusalWith (words_of request step) status place outcome → IsArrayOutcome request step outcome
  refusal_is_outcome status place stop (inl refusal) = inr (inl (record {
    status = status;
    place = place;
    not_done = λ e. stop_has_number request step status place stop (ap number_of e);
    stop = stop;
    refusal = refusal;
  }))
  refusal_is_outcome status place stop (inr nothing) = inr (inr nothing)

  -- with status 0 there is a solid
  pub outcome_has_solid : IsArrayOutcome request step outcome → outcome.status ≡ 0 → HasSolid request step outcome
  outcome_has_solid (inl has) is_zero = has
  outcome_has_solid (inr (inl none)) is_zero =
      absurd (stop_has_number request step none.status none.place none.stop (sym none.refusal.number ∙ is_zero))
  outcome_has_solid (inr (inr nothing)) is_zero = absurd (omega (arith, nothing.status, is_zero))

  -- with another status there is none
  pub outcome_has_none : IsArrayOutcome request step outcome → outcome.status ≢ 0 → outcome.solid ≡ None
  outcome_has_none (inl has) n = absurd (n has.status)
  outcome_has_none (inr (inl none)) n = none.refusal.none
  outcome_has_none (inr (inr nothing)) n = nothing.solid
