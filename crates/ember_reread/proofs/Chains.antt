-- Chains of lines: one way to read them.
use Rattle.std.proofs.Common.{◌≡◌, refl, subst, arith, ◌<◌, List, length}
use Rattle.ember_algebra.specs.Relations.{Chain, done, step}

module _ {X A : Type 0} {R : X → A → A → Type 0} (Q : A → Type 0) (keeps : (x : X) (a b : A) → Q a → R x a b →
    Q b) (end : (x y : X) (a b c : A) → Q a → R x a b → R y a c → b ≡ c) where
  -- one member more, where another chain from the same start is longer
  pub chain_ahead : {xs ys : List X} {a b c : A} → Q a → Chain R xs a b → Chain R ys a c → length xs < length ys → (y : X) × (d : A) × R y b d
  chain_ahead h done done l = absurd (omega arith)
  chain_ahead h done (step {x = y} {b = d} q e) l = (y, d, q)
  chain_ahead h (step r e) done l = absurd (omega arith)
  chain_ahead h (step {x = x} {xs = xs} {b = b} {c = c} r e) (step {x = y} {xs = ys} q d) l =
      chain_ahead {xs = xs} {ys = ys} (keeps y _ _ h q) (subst (λ z. Chain R xs z c) (end x y _ _ _ h r q) e) d (omega (arith, l))

  -- chains of one length end at one place
  pub chain_same_end : {xs ys : List X} {a b c : A} → Q a → Chain R xs a b → Chain R ys a c → length xs ≡ length ys → b ≡ c
  chain_same_end h done done l = refl
  chain_same_end h done (step q e) l = absurd (omega (arith, l))
  chain_same_end h (step r e) done l = absurd (omega (arith, l))
  chain_same_end h (step {x = x} {xs = xs} {b = b} {c = c} r e) (step {x = y} {xs = ys} q d) l =
      chain_same_end {xs = xs} {ys = ys} (keeps y _ _ h q) (subst (λ z. Chain R xs z c) (end x y _ _ _ h r q) e) d (omega (arith, l))
