-- Characters that are written one after another.
use Rattle.std.proofs.Common.{◌≡◌, ℕ, ◌+◌, ◌<◌, List, [], ◌∷◌, ◌++◌, length, take, get_or, encode_utf8, encode_utf8_all, refl, sym, ap, ◌∙◌, append-nil}
use Rattle.std.proofs.lemmas.Str.{encodes-append}
use Rattle.std.proofs.lemmas.List.{take_more}

-- one more at the end
encode_more : (cs : List ℕ) (c : ℕ) → encode_utf8_all cs ++ encode_utf8 c ≡ encode_utf8_all (cs ++ c ∷ [])
encode_more cs c = rw (encodes-append cs (c ∷ []), append-nil (encode_utf8 c)) refl

-- one more of a text
pub take_letter : (cs : List ℕ) (i : ℕ) → i < length cs → encode_utf8_all (take i cs) ++ encode_utf8 (get_or cs i 0) ≡ encode_utf8_all (take (i + 1) cs)
take_letter cs i l = encode_more (take i cs) (get_or cs i 0) ∙ ap encode_utf8_all (sym (take_more cs i 0 l))
