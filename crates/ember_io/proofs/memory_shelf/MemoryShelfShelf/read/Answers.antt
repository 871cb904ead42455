use Rattle.std.proofs.Common.{ap, sym, ◌∙◌}
use Rattle.ember_io.specs.Files.{bytes_at}
use Rattle.ember_io.specs.Memory.{ShelfState}
use Rattle.ember_io.proofs.memory_shelf.MemoryShelfShelf.read.Goals as goal

pub returns-clause-bytes : goal.returns-clause-bytes
returns-clause-bytes c =
    let rest_is = c.bytes_of-rest.ensures ∙ ap (λ files. bytes_at files c.self.inside.file_index) c.items.ensures in
    (sym (ap (λ (s : ShelfState). s.unread) c.self.view_is) ∙ (rw rest_is at c.give-count.ensures.bytes), rw rest_is at c.give-count.ensures.end)
