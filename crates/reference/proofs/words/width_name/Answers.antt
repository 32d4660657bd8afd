-- `width_name` meets its contract, width by width. Assumes nothing.
use Rattle.reference.proofs.words.width_name.Goals as goal

pub returns-in-U8 : goal.returns-in-U8
returns-in-U8 c = rw c.in-U8.is

pub returns-in-U16 : goal.returns-in-U16
returns-in-U16 c = rw c.in-U16.is

pub returns-in-U24 : goal.returns-in-U24
returns-in-U24 c = rw c.in-U24.is

pub returns-in-S16 : goal.returns-in-S16
returns-in-S16 c = rw c.in-S16.is
