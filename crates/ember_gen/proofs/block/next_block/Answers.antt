use mir.Syntax.{w32}
use Rattle.std.proofs.Common.{◌∙◌}
use Rattle.ember_algebra.proofs.Exact.{Code, input, stored, ◌⊞◌, ◌&◌, done, exact, no_overflow}
use Rattle.ember_gen.proofs.States.{six_states, next_six, block_from}
use Rattle.ember_gen.proofs.block.next_block.Goals as goal

-- a coordinate and a side
abbrev sum : Code
sum = stored w32 (stored w32 (input 0)) ⊞ stored w32 (input 1)

pub overflow_add-high : goal.overflow_add-high
overflow_add-high c = no_overflow (c.place.ensures.small & c.side.ensures.small & done) w32 sum tt

pub overflow_add-high-2 : goal.overflow_add-high-2
overflow_add-high-2 c = no_overflow (c.place-2.ensures.small & c.side-2.ensures.small & done) w32 sum tt

pub overflow_add-high-3 : goal.overflow_add-high-3
overflow_add-high-3 c = no_overflow (c.place-3.ensures.small & c.side-3.ensures.small & done) w32 sum tt

pub returns-clause-block : goal.returns-clause-block
returns-clause-block c i e =
    let d = six_states i e c.place.ensures.next c.place-2.ensures.next c.place-3.ensures.next c.side.ensures.next c.side-2.ensures.next c.side-3.ensures.next in
    let x = exact (c.place.ensures.small & done) (stored w32 (input 0)) tt in
    let y = exact (c.place-2.ensures.small & done) (stored w32 (input 0)) tt in
    let z = exact (c.place-3.ensures.small & done) (stored w32 (input 0)) tt in
    let u = exact (c.place.ensures.small & c.side.ensures.small & done) (stored w32 sum) tt in
    let v = exact (c.place-2.ensures.small & c.side-2.ensures.small & done) (stored w32 sum) tt in
    let w = exact (c.place-3.ensures.small & c.side-3.ensures.small & done) (stored w32 sum) tt in
    (λ k. record { low = record { x = x k; y = y k; z = z k }; high = record { x = u k; y = v k; z = w k } })
    ∙ block_from i d c.place.ensures.place c.place-2.ensures.place c.place-3.ensures.place c.side.ensures.side
    c.side-2.ensures.side c.side-3.ensures.side

pub returns-clause-next : goal.returns-clause-next
returns-clause-next c i e =
    next_six i (six_states i e c.place.ensures.next c.place-2.ensures.next c.place-3.ensures.next c.side.ensures.next
    c.side-2.ensures.next c.side-3.ensures.next)
