-- No second reply meets the contracts of numbers in octets, of the Feature value and of the refusal numbers.
use Rattle.record.proofs.feature.Feature.from_octets.Reads as feature_from_octets
use Rattle.record.proofs.feature.Feature.to_octets.Reads as feature_to_octets
use Rattle.record.proofs.feature.Feature.has_feature.Reads as feature_has_feature
use Rattle.record.proofs.feature.Feature.has_target.Reads as feature_has_target
use Rattle.record.proofs.feature.Feature.feature_bits.Reads as feature_feature_bits
use Rattle.record.proofs.feature.Feature.target_bits.Reads as feature_target_bits
use Rattle.record.proofs.octets.u8_at.Reads as octets_u8_at
use Rattle.record.proofs.octets.u16_at.Reads as octets_u16_at
use Rattle.record.proofs.octets.u24_at.Reads as octets_u24_at
use Rattle.record.proofs.octets.s16_at.Reads as octets_s16_at
use Rattle.record.proofs.octets.unsigned.Reads as octets_unsigned
use Rattle.record.proofs.refusal.Refusal.number.Reads as refusal_number
use Rattle.record.proofs.Once.{Once, same, meant_once}

-- ---- each public function

pub octets_once :
    Once octets_u8_at.Post ×
    Once octets_u16_at.Post ×
    Once octets_u24_at.Post ×
    Once octets_s16_at.Post ×
    Once octets_unsigned.Post
octets_once =
    (λ κs a x y s t. same, λ κs a x y s t. same, λ κs a x y s t. same, λ κs a x y s t. same, λ κs a x y s t. same)

pub refusal_once : Once refusal_number.Post
refusal_once κs a x y s t = same

pub feature_once :
    Once feature_to_octets.Post ×
    Once feature_has_feature.Post ×
    Once feature_has_target.Post ×
    Once feature_feature_bits.Post ×
    Once feature_target_bits.Post
feature_once =
    (λ κs a x y s t. same, λ κs a x y s t. same, λ κs a x y s t. same, λ κs a x y s t. same, λ κs a x y s t. same)

pub from_octets_once : Once feature_from_octets.Post
from_octets_once κs a x y s t p q = meant_once x y (same p q)
