-- The bits of its cells give a lattice one text.
use Rattle.std.proofs.Common.{◌≡◌, ℕ, zero, ◌+◌, ◌-◌, ◌*◌, ◌/◌, ◌%◌, ◌^◌, ◌<◌, Bool, inl, inr, List, ◌++◌, get_or}
use Rattle.std.proofs.Common.{count_by, codes, decimal, sym, ap, ◌∙◌, subst, arith}
use Rattle.std.proofs.lemmas.Bool.Decides.{eqb_tells}
use Rattle.std.proofs.lemmas.List.{ext_get_or}
use Rattle.std.proofs.lemmas.Nat.{div-add-mod'}
use Rattle.std.proofs.Math.Nat.{mod-lt, div-lt_iff_lt-mul}
use Rattle.ember_voxel.specs.Grid.{char_at, is_one, header_of, IsGrid, IsTextOfBits}

module _ (n : ℕ) (bit : ℕ → ℕ → ℕ → Bool) (a b : List ℕ) (f : IsGrid n bit a) (g : IsGrid n bit b) where
  same_char : (r i : ℕ) → r < n * n → i < n + 1 → char_at n a r i ≡ char_at n b r i
  same_char r i row index = elim (eqb_tells i n) [
    | inl e ↦ subst (λ k. char_at n a r k ≡ char_at n b r k) (sym e.1) (f.feed r row ∙ sym (g.feed r row))
    | inr e ↦
        let cell : i < n = omega (arith, index, e.1) in let some : zero < n = omega (arith, cell) in
        let j = mod-lt r some in let l = (div-lt_iff_lt-mul some).1 row in
        subst (λ k. char_at n a k i ≡ char_at n b k i) (div-add-mod' r n) (f.cell i (r % n) (r / n) cell j l ∙ sym (g.cell i (r % n) (r / n) cell j l))
  ]

  same_rows : a ≡ b
  same_rows = ext_get_or 0 a b (f.size ∙ sym g.size) (λ k within.
      let some : zero < n + 1 = omega arith in
      subst (λ m. get_or a m 0 ≡ get_or b m 0) (div-add-mod' k (n + 1))
      (same_char (k / (n + 1)) (k % (n + 1)) ((div-lt_iff_lt-mul some).1 (omega (arith, within, f.size)))
      (mod-lt k some)))

-- bits have one text
pub one_text : (size : ℕ) (bit : ℕ → ℕ → ℕ → Bool) (text other : List ℕ) → IsTextOfBits size bit text → IsTextOfBits size bit other → text ≡ other
one_text size bit text other f g =
    f.is ∙ ap (λ rows. header_of size (2 ^ (12 - size)) ++ rows
    ++ (codes "end " ++ decimal (count_by is_one rows) ++ codes "\n"))
    (same_rows (2 ^ (12 - size)) bit f.rows g.rows f.grid g.grid) ∙ sym g.is
