-- No second reply meets the contract of `comes_back` or of `comes_back_told`.
use mathlib.Core.Path.{sym, ◌∙◌}
use Rattle.record.proofs.Once.{Once, meant_once}
use Rattle.demands.proofs.comes_back.Reads as comes_back
use Rattle.demands.proofs.comes_back_told.Reads as comes_back_told

pub demands_once : Once comes_back.Post × Once comes_back_told.Post
demands_once = (λ κs a x y s t p q. meant_once x y (p ∙ sym q), λ κs a x y s t p q. meant_once x y (p ∙ sym q))
