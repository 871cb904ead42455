-- The header that code has in hand
use Rattle.mesh_ply.specs.declared.header.Header.{Header}
use Rattle.mesh_ply.specs.Header as header

-- a header as definitions see it
abbrev pub header_of : Header → header.Header
header_of h = record { encoding = h.encoding; kind = h.kind; declarations = h.declarations.items }
