-- Open collections: "Held groups are dropped, if open, when any of its groups is held". Most use an indoor bike's average speed (flags 02), cadence (04)
-- and average cadence (08); flags with 01 have More Data 1.
use Rattle.std.specs.Prelude.{true, false, List, [], ◌∷◌, replicate}
use Rattle.service.specs.declared.collector.Told.TheVariants.{Open}
use Rattle.demands.specs.Collecting.Seen.{waits, hands, refuses, ◌answered◌holding◌, Case, opening}

abbrev pub open_bike : List Case
open_bike =
    -- the sample
    opening 6 Open
    (((0x44 ∷ 0x00 ∷ 0xc4 ∷ 0x09 ∷ 0xb4 ∷ 0x00 ∷ 0xfa ∷ 0x00 ∷ []) answered (hands 0x44 0 (2500 ∷ 180 ∷ 250 ∷ []) false) holding 0x0) ∷ []) ∷
    -- all groups
    opening 6 Open
    (((0xff ∷ 0x00 ∷ 0xee ∷ 0x03 ∷ 0x06 ∷ 0x04 ∷ 0x07 ∷ 0x04 ∷ 0x47 ∷ 0x42 ∷ 0x0f ∷ 0xe6 ∷ 0xff ∷ 0xe5 ∷ 0xff ∷ 0xe4 ∷ 0xff ∷ []) answered (waits false) holding 0xFE) ∷
    ((0x00 ∷ 0x1f ∷ 0xe9 ∷ 0x03 ∷ 0xf6 ∷ 0x03 ∷ 0xf7 ∷ 0x03 ∷ 0x10 ∷ 0x11 ∷ 0x12 ∷ 0xfb ∷ 0x03 ∷ 0xfc ∷ 0x03 ∷ []) answered (hands 0x1FFE 0 (1001 ∷ 1006 ∷ 1030 ∷ 1031 ∷ 1000007 ∷ 65510 ∷ 65509 ∷ 65508 ∷ 1014 ∷ 1015 ∷ 16 ∷ 17 ∷ 18 ∷ 1019 ∷ 1020 ∷ []) false) holding 0x0) ∷ []) ∷
    -- no octets
    opening 6 Open
    ((([]) answered (refuses 31 false) holding 0x0) ∷ []) ∷
    -- one octet
    opening 6 Open
    (((0x44 ∷ []) answered (refuses 31 false) holding 0x0) ∷ []) ∷
    -- cut short
    opening 6 Open
    (((0x44 ∷ 0x00 ∷ 0xc4 ∷ []) answered (refuses 32 false) holding 0x0) ∷ []) ∷
    -- octets after the last group
    opening 6 Open
    (((0x03 ∷ 0x00 ∷ 0xe8 ∷ 0x03 ∷ 0x01 ∷ 0x02 ∷ []) answered (waits false) holding 0x2) ∷
    ((0x04 ∷ 0x00 ∷ 0xc4 ∷ 0x09 ∷ 0xb4 ∷ 0x00 ∷ 0x03 ∷ []) answered (hands 0x6 0 (2500 ∷ 1000 ∷ 180 ∷ []) false) holding 0x0) ∷ []) ∷
    -- reserved bits
    opening 6 Open
    (((0x03 ∷ 0xe0 ∷ 0xe8 ∷ 0x03 ∷ []) answered (waits false) holding 0x2) ∷
    ((0x04 ∷ 0xe0 ∷ 0xc4 ∷ 0x09 ∷ 0xb4 ∷ 0x00 ∷ []) answered (hands 0x6 0 (2500 ∷ 1000 ∷ 180 ∷ []) false) holding 0x0) ∷ []) ∷
    -- a group that is held drops all
    opening 6 Open
    (((0x07 ∷ 0x00 ∷ 0xe8 ∷ 0x03 ∷ 0xb4 ∷ 0x00 ∷ []) answered (waits false) holding 0x6) ∷
    ((0x05 ∷ 0x00 ∷ 0xb5 ∷ 0x00 ∷ []) answered (waits true) holding 0x4) ∷
    ((0x00 ∷ 0x00 ∷ 0xc4 ∷ 0x09 ∷ []) answered (hands 0x4 0 (2500 ∷ 181 ∷ []) false) holding 0x0) ∷ []) ∷
    -- in the last part too
    opening 6 Open
    (((0x07 ∷ 0x00 ∷ 0xe8 ∷ 0x03 ∷ 0xb4 ∷ 0x00 ∷ []) answered (waits false) holding 0x6) ∷
    ((0x04 ∷ 0x00 ∷ 0xc4 ∷ 0x09 ∷ 0xb5 ∷ 0x00 ∷ []) answered (hands 0x4 0 (2500 ∷ 181 ∷ []) true) holding 0x0) ∷ []) ∷
    -- no group that is held
    opening 6 Open
    (((0x09 ∷ 0x00 ∷ 0xb6 ∷ 0x00 ∷ []) answered (waits false) holding 0x8) ∷
    ((0x03 ∷ 0x00 ∷ 0xe8 ∷ 0x03 ∷ []) answered (waits false) holding 0xA) ∷
    ((0x04 ∷ 0x00 ∷ 0xc4 ∷ 0x09 ∷ 0xb4 ∷ 0x00 ∷ []) answered (hands 0xE 0 (2500 ∷ 1000 ∷ 180 ∷ 182 ∷ []) false) holding 0x0) ∷ []) ∷
    -- a part without groups
    opening 6 Open
    (((0x03 ∷ 0x00 ∷ 0xe8 ∷ 0x03 ∷ []) answered (waits false) holding 0x2) ∷
    ((0x01 ∷ 0x00 ∷ []) answered (waits false) holding 0x2) ∷
    ((0x00 ∷ 0x00 ∷ 0xc4 ∷ 0x09 ∷ []) answered (hands 0x2 0 (2500 ∷ 1000 ∷ []) false) holding 0x0) ∷ []) ∷
    -- no group at all
    opening 6 Open
    (((0x01 ∷ 0x00 ∷ []) answered (waits false) holding 0x0) ∷
    ((0x00 ∷ 0x00 ∷ 0xc4 ∷ 0x09 ∷ []) answered (hands 0x0 0 (2500 ∷ []) false) holding 0x0) ∷ []) ∷
    -- nothing held after 31
    opening 6 Open
    (((0x03 ∷ 0x00 ∷ 0xe8 ∷ 0x03 ∷ []) answered (waits false) holding 0x2) ∷
    ((0x44 ∷ []) answered (refuses 31 true) holding 0x0) ∷
    ((0x00 ∷ 0x00 ∷ 0xc4 ∷ 0x09 ∷ []) answered (hands 0x0 0 (2500 ∷ []) false) holding 0x0) ∷ []) ∷
    -- nothing held after 32
    opening 6 Open
    (((0x03 ∷ 0x00 ∷ 0xe8 ∷ 0x03 ∷ []) answered (waits false) holding 0x2) ∷
    ((0x44 ∷ 0x00 ∷ 0xc4 ∷ []) answered (refuses 32 true) holding 0x0) ∷
    ((0x00 ∷ 0x00 ∷ 0xc4 ∷ 0x09 ∷ []) answered (hands 0x0 0 (2500 ∷ []) false) holding 0x0) ∷ []) ∷
    -- nothing held after a record
    opening 6 Open
    (((0x03 ∷ 0x00 ∷ 0xe8 ∷ 0x03 ∷ []) answered (waits false) holding 0x2) ∷
    ((0x04 ∷ 0x00 ∷ 0xc4 ∷ 0x09 ∷ 0xb4 ∷ 0x00 ∷ []) answered (hands 0x6 0 (2500 ∷ 1000 ∷ 180 ∷ []) false) holding 0x0) ∷
    ((0x00 ∷ 0x00 ∷ 0xc4 ∷ 0x09 ∷ []) answered (hands 0x0 0 (2500 ∷ []) false) holding 0x0) ∷ []) ∷
    -- part 2, then 1 and 3 of the next record
    opening 6 Open
    (((0x05 ∷ 0x00 ∷ 0xb4 ∷ 0x00 ∷ []) answered (waits false) holding 0x4) ∷
    ((0x03 ∷ 0x00 ∷ 0xe9 ∷ 0x03 ∷ []) answered (waits false) holding 0x6) ∷
    ((0x08 ∷ 0x00 ∷ 0xc5 ∷ 0x09 ∷ 0xb7 ∷ 0x00 ∷ []) answered (hands 0xE 0 (2501 ∷ 1001 ∷ 180 ∷ 183 ∷ []) false) holding 0x0) ∷ []) ∷
    -- 512 octets, of which those after the last named group are ignored; 513; and 513 with a group held
    opening 6 Open
    ((replicate 512 0 answered (hands 0x0 0 (0 ∷ []) false) holding 0x0) ∷
    (replicate 513 0 answered (refuses 30 false) holding 0x0) ∷
    ((0x03 ∷ 0x00 ∷ 0xe8 ∷ 0x03 ∷ []) answered (waits false) holding 0x2) ∷
    (replicate 513 0 answered (refuses 30 true) holding 0x0) ∷ []) ∷ []

abbrev pub open_trainer : List Case
open_trainer =
    -- two octets of three flags
    opening 2 Open
    (((0x00 ∷ 0x80 ∷ []) answered (refuses 31 false) holding 0x0) ∷ []) ∷
    -- backward, then forward
    opening 2 Open
    (((0x03 ∷ 0x80 ∷ 0x00 ∷ 0xe8 ∷ 0x03 ∷ []) answered (waits false) holding 0x2) ∷
    ((0x04 ∷ 0x00 ∷ 0x00 ∷ 0xc4 ∷ 0x09 ∷ 0x01 ∷ 0x02 ∷ 0x03 ∷ []) answered (hands 0x6 0 (2500 ∷ 1000 ∷ 197121 ∷ []) false) holding 0x0) ∷ []) ∷
    -- forward, then backward
    opening 2 Open
    (((0x03 ∷ 0x00 ∷ 0x00 ∷ 0xe8 ∷ 0x03 ∷ []) answered (waits false) holding 0x2) ∷
    ((0x04 ∷ 0x80 ∷ 0x00 ∷ 0xc4 ∷ 0x09 ∷ 0x01 ∷ 0x02 ∷ 0x03 ∷ []) answered (hands 0x6 1 (2500 ∷ 1000 ∷ 197121 ∷ []) false) holding 0x0) ∷ []) ∷
    -- reserved bits, in the third octet of flags
    opening 2 Open
    (((0x03 ∷ 0x00 ∷ 0xff ∷ 0xe8 ∷ 0x03 ∷ []) answered (waits false) holding 0x2) ∷
    ((0x04 ∷ 0x80 ∷ 0xff ∷ 0xc4 ∷ 0x09 ∷ 0x01 ∷ 0x02 ∷ 0x03 ∷ []) answered (hands 0x6 1 (2500 ∷ 1000 ∷ 197121 ∷ []) false) holding 0x0) ∷ []) ∷ []
