-- What a reader finds in a page.
use Rattle.std.proofs.Common.{◌≡◌, ℕ, List, ◌++◌, flat_map, map, Ok, append_assoc, ◌∙◌}
use Rattle.base64.specs.Engines.{standard}
use Rattle.base64.specs.GeneralPurpose.{decode_of}
use Rattle.mesh_write.specs.Glb.Written.{corner_bytes}
use Rattle.mesh_write.proofs.Points.{corners_alone}
use Rattle.mesh_write.specs.declared.stl.triangle.FloatTriangle.{FloatTriangle}
use Rattle.mesh_info.specs.declared.page.head.TheConstants.{HEAD, PANEL, CONTROLS}
use Rattle.mesh_info.specs.Page.Pages.{back_of, escaped, file_byte, front_of, item_text}
use Rattle.mesh_info.specs.Page.ReadBack.{IsReadBack}

joined : (a b c d e back : List ℕ) → (a ++ (b ++ (c ++ (d ++ e)))) ++ back ≡ ((a ++ (b ++ (c ++ d))) ++ e) ++ back
joined a b c d e back = simp append_assoc

-- of a page with these texts of corners and of numbers of files
pub read_back : (ts : List FloatTriangle) (files title : List ℕ) (names : List (List ℕ)) (text file_text page : List ℕ) →
    page ≡ front_of title names ++ back_of text file_text → decode_of standard text ≡ Ok (flat_map corner_bytes ts) →
    decode_of standard file_text ≡ Ok (map file_byte files) → IsReadBack ts files page
read_back ts files title names text file_text page is decoded of_files = record {
  front = HEAD.now ++ (escaped title ++ (PANEL.now ++ flat_map item_text names));
  text = text;
  file_text = file_text;
  found = is ∙ joined HEAD.now (escaped title) PANEL.now (flat_map item_text names) CONTROLS.now (back_of text file_text);
  numbers = flat_map corner_bytes ts;
  decoded = decoded;
  corners = corners_alone ts;
  files_decoded = of_files;
}
