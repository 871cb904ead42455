use Rattle.ember_box_tests.proofs.sides.+see_below.Given as goal

abbrev pub decreases-see_below : goal.decreases-see_below
decreases-see_below l = l.left
