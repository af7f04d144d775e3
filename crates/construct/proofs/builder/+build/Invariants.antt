use Rattle.construct.proofs.builder.+build.Given as goal

abbrev pub decreases-build : goal.decreases-build
decreases-build l = l.i
