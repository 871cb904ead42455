use Rattle.std.proofs.Common.{◌≡◌, ℕ, List, [], ◌++◌, string_bytes, ◌∙◌}
use Rattle.mesh_info.specs.Page.Pages.{back_of, front_of}
use Rattle.mesh_info.proofs.PageReadBack.{read_back}
use Rattle.mesh_info.proofs.page.writing.page_bytes.Goals as goal

-- the front and the back of a page, one behind the other, where the texts were put in under other names
joined : (front text files shown shown_files x0 x1 x2 : List ℕ) → shown ≡ text → shown_files ≡ files → x0 ≡ [] →
    x1 ≡ x0 ++ front → x2 ≡ x1 ++ back_of shown shown_files → x2 ≡ front ++ back_of text files
joined front text files shown shown_files x0 x1 x2 a b none d e =
    e ∙ (λ i. d i ++ back_of (a i) (b i)) ∙ (λ i. (none i ++ front) ++ back_of text files)

pub returns : goal.returns
returns c =
    let title = c.args.title.now in
    let names = c.args.names.now in
    let text = string_bytes c.in_ok-corner_text.corner_text in
    let file_text = string_bytes c.in_ok-file_text.file_text in
    let page = c.put_back.new.page.items in
    let is : page ≡ front_of title names ++ back_of text file_text =
    joined (front_of title names) text file_text c.as_bytes.result.now c.as_bytes-2.result.now c.new-page.result.items
    c.put_front.new.page.items page c.as_bytes.ensures.value c.as_bytes-2.ensures.value c.new-page.ensures.items
    c.in_ok-put_front.ensures c.in_ok-put_back.ensures in
    record {
      page = is ∙ (λ i. front_of title names ++ back_of (c.in_ok-corner_text.ensures.text i) (c.in_ok-file_text.ensures.text i));
      read_back = read_back c.args.triangles.now c.args.files.now title names text file_text page is
          c.in_ok-corner_text.ensures.decoded c.in_ok-file_text.ensures.decoded;
    }
