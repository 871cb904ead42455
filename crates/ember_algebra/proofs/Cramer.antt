-- Determinants: what they satisfy, as identities.
use Rattle.ember_algebra.proofs.Ring.{Expr, ◌⊕◌, ◌⊖◌, ◌⊗◌}

-- the same determinants, as expressions
abbrev pub Det2 : Expr → Expr → Expr → Expr → Expr
Det2 a b c d = a ⊗ d ⊖ b ⊗ c

-- the determinant of three rows of three expressions
abbrev pub Det3 : Expr → Expr → Expr → Expr → Expr → Expr → Expr → Expr → Expr → Expr
Det3 a b c d e f g h i = a ⊗ Det2 e f h i ⊖ b ⊗ Det2 d f g i ⊕ c ⊗ Det2 d e g h
