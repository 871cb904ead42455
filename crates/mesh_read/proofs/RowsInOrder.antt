-- Rows that are read one after another
use Rattle.std.proofs.Common.{◌≡◌, ◌⊎◌, inl, inr, ℕ, List, [], ◌∷◌, length, refl, sym, ap, ◌∙◌, arith, Ok, Err, Result}
use Rattle.mesh_read.specs.Scan.Parts.{Piece, lines_from}
use Rattle.mesh_read.specs.Surface.Surfaces.{Content}
use Rattle.mesh_read.specs.declared.wavefront.fault.WavefrontFault.{WavefrontFault}
use Rattle.mesh_read.specs.declared.wavefront.fault.WavefrontFault.TheVariants.{OutOfMemory}
use Rattle.mesh_read.specs.Wavefront.Faults.{Fault, fault_of}
use Rattle.mesh_read.specs.Wavefront.Rows.{Row, rows_from}
use Rattle.mesh_read.specs.Wavefront.ReadWavefront.{after_words, after_rows}

after_fault : (fault : Fault) (rows : List Row) → after_rows (Err fault) rows ≡ Err fault
after_fault fault [] = refl
after_fault fault (row ∷ rows) = refl

-- the first row is read
pub row_read : (all : Result Content Fault) (content new : Content) (line : ℕ) (words : List Piece)
    (rows more : List Row) → all ≡ after_rows (Ok content) rows → rows ≡ record { line = line; words = words } ∷ more →
    after_words line content words ≡ Ok new → all ≡ after_rows (Ok new) more
row_read all content new line words rows more so_far is read = so_far ∙ ap (after_rows (Ok content)) is ∙ ap (λ r. after_rows r more) read

-- the first row has a fault, or out-of-memory
pub row_fault : (all : Result Content Fault) (content : Content) (error : WavefrontFault) (line : ℕ)
    (words read : List Piece) (rows more : List Row) → all ≡ after_rows (Ok content) rows →
    rows ≡ record { line = line; words = words } ∷ more → read ≡ words →
    (error ≡ OutOfMemory) ⊎ (after_words line content read ≡ Err (fault_of error)) →
    (error ≡ OutOfMemory) ⊎ (all ≡ Err (fault_of error))
row_fault all content error line words read rows more so_far is same (inl memory) = inl memory
row_fault all content error line words read rows more so_far is same (inr fault) =
    inr (so_far
    ∙ ap (after_rows (Ok content)) is
    ∙ ap (λ ws. after_rows (after_words line content ws) more) (sym same)
    ∙ ap (λ r. after_rows r more) fault
    ∙ after_fault (fault_of error) more)

-- no row is left
pub no_rows : (all : Result Content Fault) (content : Content) (number s : ℕ) (text : List ℕ) →
    all ≡ after_rows (Ok content) (rows_from number (lines_from s text)) → length text ≡ 0 → all ≡ Ok content
no_rows all content number s [] so_far none = so_far
no_rows all content number s (b ∷ bs) so_far none = absurd (omega arith)
