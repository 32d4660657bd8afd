-- "36: capture above 65,536 octets"; "36, then 11, are judged first and end the listing".
use Prim.Native.Nat.{ℕ, ◌<◌, ◌≤◌}
use mathlib.Core.Path.{◌≡◌}
use mathlib.Core.List.{List}
use borrow.Author.Tests.{lt-ltb}
use lib.ListN.{length}
use Rattle.record.proofs.Tests.{ltb_false}
use Rattle.listing.specs.Lines.{refused_line}
use Rattle.listing.specs.Listing.{from_kind, listing}

-- whatever the capture holds, even its kind
pub above : (capture : List ℕ) → 65536 < length capture → listing capture ≡ refused_line 36
unfolding listing
above capture h = rw (lt-ltb 65536 (length capture) h)

pub not_above : (capture : List ℕ) → length capture ≤ 65536 → listing capture ≡ from_kind capture
unfolding listing
not_above capture h = rw (ltb_false 65536 (length capture) h)
