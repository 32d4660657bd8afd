-- Listings as theorems, by computation.
use Rattle.std.specs.Prelude.{◌≡◌, refl, [], ◌∷◌, replicate}
use Rattle.record.specs.Layout.{layout, tables, treadmill, cross_trainer, step_climber, stair_climber, rower, indoor_bike}
use Rattle.record.specs.Groups.{has, named, size, groups_of, listed}
use Rattle.record.specs.Octets.{number}
use Rattle.record.specs.Notification.{part_of, read_into, values}
use Rattle.service.specs.Collector.{joins, collect}
use Rattle.text.specs.Text.{ascii, decimal, integer, line}
use Rattle.text.specs.Names.{name, names}
use Rattle.listing.specs.Lines.{field_line, head_lines, record_lines, refused_line}
use Rattle.listing.specs.Listing.{begins, notifications, from_kind, listing}

-- In order: the document's sample; a treadmill's record in two parts; a cross trainer's record, backward, after a notification of 1 octet and
-- one of 44 00 C4; a capture that ends inside a notification; an empty capture; a kind alone; an unknown kind; a capture that ends inside a length;
-- two records, with a part that waits and a refusal between them.
pub samples :
    (listing (0x06 ∷ 0x08 ∷ 0x00 ∷ 0x44 ∷ 0x00 ∷ 0xc4 ∷ 0x09 ∷ 0xb4 ∷ 0x00 ∷ 0xfa ∷ 0x00 ∷ []) ≡ ascii "record=1\nkind=6\ngroups=68\ndirection=0\nspeed=2500\ncadence=180\npower=250\n") ×
    (listing (0x01 ∷ 0x11 ∷ 0x00 ∷ 0x7f ∷ 0x00 ∷ 0x91 ∷ 0xb7 ∷ 0xff ∷ 0xff ∷ 0xff ∷ 0x83 ∷ 0xff ∷ 0x00 ∷ 0x80 ∷ 0xff ∷ 0xff ∷ 0x00 ∷ 0x00 ∷ 0xc2 ∷ 0x34 ∷ 0x13 ∷ 0x00 ∷ 0x80 ∷ 0x1f ∷ 0xc9 ∷ 0x82 ∷ 0x00 ∷ 0x00 ∷ 0xff ∷ 0xff ∷ 0x00 ∷ 0x00 ∷ 0x00 ∷ 0x00 ∷ 0x00 ∷ 0x00 ∷ 0x00 ∷ 0x00 ∷ 0x80 ∷ 0x00 ∷ 0x80 ∷ []) ≡ ascii "record=1\nkind=1\ngroups=8190\ndirection=0\nspeed=33481\naverage_speed=46993\ndistance=16777215\ninclination=-125\nramp_angle=-32768\npositive_gain=65535\nnegative_gain=0\npace=194\naverage_pace=52\ntotal_energy=0\nenergy_per_hour=65535\nenergy_per_minute=0\nheart_rate=0\nmetabolic_equivalent=0\nelapsed=0\nremaining=0\nbelt_force=-32768\npower_output=-32768\n") ×
    (listing (0x02 ∷ 0x01 ∷ 0x00 ∷ 0x01 ∷ 0x03 ∷ 0x00 ∷ 0x44 ∷ 0x00 ∷ 0xc4 ∷ 0x0f ∷ 0x00 ∷ 0xc2 ∷ 0x81 ∷ 0x00 ∷ 0xff ∷ 0xff ∷ 0x00 ∷ 0x00 ∷ 0x00 ∷ 0x80 ∷ 0xff ∷ 0x7f ∷ 0x00 ∷ 0x80 ∷ 0xff ∷ 0x7f ∷ []) ≡ ascii "refused=31\nrefused=32\nrecord=1\nkind=2\ngroups=450\ndirection=1\nspeed=65535\naverage_speed=0\ninclination=-32768\nramp_angle=32767\nresistance=-32768\npower=32767\n") ×
    (listing (0x06 ∷ 0x08 ∷ 0x00 ∷ 0x44 ∷ 0x00 ∷ 0xc4 ∷ 0x09 ∷ []) ≡ ascii "refused=37\n") ×
    (listing ([]) ≡ ascii "refused=11\n") ×
    (listing (0x05 ∷ []) ≡ ascii "") ×
    (listing (0x07 ∷ 0x00 ∷ 0x00 ∷ []) ≡ ascii "refused=11\n") ×
    (listing (0x03 ∷ 0x05 ∷ []) ≡ ascii "refused=37\n") ×
    (listing (0x06 ∷ 0x04 ∷ 0x00 ∷ 0x00 ∷ 0x00 ∷ 0xc4 ∷ 0x09 ∷ 0x04 ∷ 0x00 ∷ 0x03 ∷ 0x00 ∷ 0xe8 ∷ 0x03 ∷ 0x01 ∷ 0x00 ∷ 0x44 ∷ 0x04 ∷ 0x00 ∷ 0x00 ∷ 0x00 ∷ 0xc5 ∷ 0x09 ∷ []) ≡ ascii "record=1\nkind=6\ngroups=0\ndirection=0\nspeed=2500\nrefused=31\nrecord=2\nkind=6\ngroups=0\ndirection=0\nspeed=2501\n")
unfolding listing from_kind notifications begins collect joins part_of values read_into number record_lines head_lines refused_line field_line line decimal integer name names layout has named size groups_of listed treadmill cross_trainer step_climber stair_climber rower indoor_bike tables
samples = (refl, refl, refl, refl, refl, refl, refl, refl, refl)

-- "36: capture above 65,536 octets", "36, then 11, are judged first": a capture of 65,537 octets whose kind is unknown; and one of 65,536 octets with one
-- notification of 65,533, which is refused with 30
pub bounds : (listing (0x07 ∷ replicate 65536 0) ≡ ascii "refused=36\n") × (listing (0x06 ∷ 0xfd ∷ 0xff ∷ replicate 65533 0) ≡ ascii "refused=30\n")
unfolding listing from_kind notifications begins collect part_of number refused_line line decimal
bounds = (refl, refl)
