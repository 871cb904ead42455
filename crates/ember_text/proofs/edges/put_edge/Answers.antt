use Rattle.std.proofs.Common.{◌≡◌, ℤ, ◌∷◌, [], ◌++◌, refl, subst, OnOk}
use Rattle.ember_algebra.proofs.Exact.{wide, kept, ◌&◌, done, exact}
use Rattle.ember_model.specs.FaceFiles.{line_of}
use Rattle.ember_point.specs.Points.{spot_of}
use Rattle.ember_text.proofs.GrownBytes.{on_ok_weaker}
use Rattle.ember_text.proofs.edges.put_edge.Goals as goal

eight : {a b c d x y z w a' b' c' d' x' y' z' w' : ℤ} → a ≡ a' → b ≡ b' → c ≡ c' → d ≡ d' → x ≡ x' → y ≡ y' → z ≡ z' →
    w ≡ w' → a ∷ b ∷ c ∷ d ∷ x ∷ y ∷ z ∷ w ∷ [] ≡ a' ∷ b' ∷ c' ∷ d' ∷ x' ∷ y' ∷ z' ∷ w' ∷ []
eight ea eb ec ed ex ey ez ew = λ i. ea i ∷ eb i ∷ ec i ∷ ed i ∷ ex i ∷ ey i ∷ ez i ∷ ew i ∷ []

pub returns-clause-ok : goal.returns-clause-ok
returns-clause-ok c =
    let p = c.requires in let v = c.reduce-start.result in let s = v.valid in
    let e = eight (exact (p.a & done) (wide 0) tt) (exact (p.b & done) (wide 0) tt) (exact (p.c & done) (wide 0) tt)
    (exact (p.d & done) (wide 0) tt) (exact (s.x & done) (kept 0) tt) (exact (s.y & done) (kept 0) tt)
    (exact (s.z & done) (kept 0) tt) (exact (s.w & done) (kept 0) tt) in
    on_ok_weaker c.put_line.result (λ h. record {
      more = _;
      is = h;
      holds =
          record {
            start = spot_of v;
            same = record {
              same = c.reduce-start.ensures.same;
              from =
                  c.args.corner.now.valid.weight;
              to = s.weight;
            };
            written =
                record { plane = p; start = record { valid = s; lowest = c.reduce-start.ensures.lowest } };
            is = refl;
          };
    })
    (subst (λ ns. OnOk c.put_line.result (c.put_line.new.out.items ≡ c.args.out.now.items ++ line_of (101 ∷ []) ns)) e
    c.put_line.ensures.ok)
