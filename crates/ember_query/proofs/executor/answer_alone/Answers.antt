use Rattle.ember_query.proofs.Findings.{counts_found, faces_found, fills_found, fills_root, outlines_asked, outlines_found, texts_found, pairs_found}
use Rattle.ember_query.proofs.executor.answer_alone.Goals as goal

pub results_alone-requires-in-Fills-clause-root : goal.results_alone-requires-in-Fills-clause-root
results_alone-requires-in-Fills-clause-root g c =
    fills_root _ _ _ _ _ c.requires c.in-Fills.is c.in_ok-root-in-Fills.ensures.value

pub returns-in_ok-results_alone-in-Pairs : goal.returns-in_ok-results_alone-in-Pairs
returns-in_ok-results_alone-in-Pairs g c =
    pairs_found _ _ _ _ c.in-Pairs.is c.in_ok-root-in-Pairs.ensures.value c.in_ok-results_alone-in-Pairs.ensures.items

pub returns-in_ok-results_alone-in-Fills : goal.returns-in_ok-results_alone-in-Fills
returns-in_ok-results_alone-in-Fills g c =
    fills_found _ _ _ _ _ _ c.in-Fills.is c.in_ok-root-in-Fills.ensures.value c.in_ok-results_alone-in-Fills.ensures.items

pub returns-in_ok-results_alone-in-Texts : goal.returns-in_ok-results_alone-in-Texts
returns-in_ok-results_alone-in-Texts g c =
    texts_found _ _ _ _ _ c.in-Texts.is c.in_ok-root-in-Texts.ensures.value c.in_ok-results_alone-in-Texts.ensures.items
    c.in_ok-results_alone-in-Texts.ensures.journals

pub returns-in_ok-results_alone-in-Faces : goal.returns-in_ok-results_alone-in-Faces
returns-in_ok-results_alone-in-Faces g c =
    faces_found _ _ _ _ _ c.in-Faces.is c.in_ok-root-in-Faces.ensures.value c.in_ok-results_alone-in-Faces.ensures.items
    c.in_ok-results_alone-in-Faces.ensures.journals

pub returns-in_ok-results_alone-in-Counts : goal.returns-in_ok-results_alone-in-Counts
returns-in_ok-results_alone-in-Counts g c =
    counts_found _ _ _ _ _ c.in-Counts.is c.in_ok-root-in-Counts.ensures.value
    c.in_ok-results_alone-in-Counts.ensures.items c.in_ok-results_alone-in-Counts.ensures.journals

pub root_job_among-requires : goal.root_job_among-requires
root_job_among-requires g c = outlines_asked _ _ _ c.requires c.in-BroadOutlines.is

pub returns-in_ok-results_alone-in-BroadOutlines : goal.returns-in_ok-results_alone-in-BroadOutlines
returns-in_ok-results_alone-in-BroadOutlines g c =
    outlines_found _ _ _ _ _ c.in-BroadOutlines.is c.in_ok-root-in-BroadOutlines.ensures.value
    c.in_ok-results_alone-in-BroadOutlines.ensures.items c.in_ok-results_alone-in-BroadOutlines.ensures.journals
