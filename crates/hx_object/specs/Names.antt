-- The grammar of names, of the keys of labels and annotations, and of label values, over bytes.
-- The rules are those of the Kubernetes API ("Object Names and IDs", "Labels and Selectors"), but where a line says otherwise.
--     is_dns_label          names of namespaces and of anchors
--     is_dns_subdomain      names of the other kinds but Role and RoleBinding
--     is_role_name          names of Roles and RoleBindings
--     is_qualified_part     the name in a key, and a label value that isn't empty
--     is_label_key, is_annotation_key, is_label_value
--     is_name_of kind       the grammar of the kind's names
use Rattle.std.specs.Prelude.{ℕ, ◌+◌, ◌-◌, Bool, true, false, not, ◌&&◌, ◌||◌, nat_eq, nat_le, ◌==◌, List, length, take, drop, slice_index, codes, Option, Some, None}
use Rattle.std.specs.List.{list_all, slice_split, position}
use Rattle.std.specs.Str.{bytes_eq}
use Rattle.hx_object.specs.declared.kind.Kind.{Kind}
use Rattle.hx_object.specs.declared.kind.Kind.TheVariants.{Namespace, SubnamespaceAnchor, Role, RoleBinding}

-- ---- bytes

abbrev byte_of : List ℕ → ℕ
byte_of text = slice_index text 0

abbrev pub dash : ℕ
dash = byte_of (codes "-")

abbrev pub point : ℕ
point = byte_of (codes ".")

abbrev pub slash : ℕ
slash = byte_of (codes "/")

abbrev pub percent : ℕ
percent = byte_of (codes "%")

abbrev pub underscore : ℕ
underscore = byte_of (codes "_")

-- `a` to `z`
abbrev pub is_lower : ℕ → Bool
is_lower byte = nat_le 97 byte && nat_le byte 122

-- `A` to `Z`
abbrev pub is_upper : ℕ → Bool
is_upper byte = nat_le 65 byte && nat_le byte 90

-- `0` to `9`
abbrev pub is_digit : ℕ → Bool
is_digit byte = nat_le 48 byte && nat_le byte 57

-- a lowercase letter, a digit or a dash
abbrev pub is_dns_byte : ℕ → Bool
is_dns_byte byte = is_lower byte || is_digit byte || byte == dash

-- ---- names

-- between so many bytes and so many
abbrev pub has_length : ℕ → ℕ → List ℕ → Bool
has_length least most text = nat_le least (length text) && nat_le (length text) most

-- the first and the last byte pass the test; of a text that isn't empty
abbrev pub has_ends : (ℕ → Bool) → List ℕ → Bool
has_ends passes text = passes (slice_index text 0) && passes (slice_index text (length text - 1))

-- no dash; of the bytes of a label, a letter or a digit
abbrev pub is_dns_end : ℕ → Bool
is_dns_end byte = not (byte == dash)

-- 1 to 63 lowercase letters, digits and dashes, with no dash at either end
unfoldable pub is_dns_label : List ℕ → Bool
is_dns_label name = has_length 1 63 name && (list_all is_dns_byte name && has_ends is_dns_end name)

-- a lowercase letter, or where any case will do an uppercase one
abbrev pub is_letter : Bool → ℕ → Bool
is_letter any_case byte = is_lower byte || (any_case && is_upper byte)

-- such a letter, a digit or a dash
abbrev pub is_part_byte : Bool → ℕ → Bool
is_part_byte any_case byte = is_letter any_case byte || (is_digit byte || byte == dash)

-- a part of a subdomain: one or more such bytes, with no dash at either end
unfoldable pub is_dns_part : Bool → List ℕ → Bool
is_dns_part any_case part = nat_le 1 (length part) && (list_all (is_part_byte any_case) part && has_ends is_dns_end part)

-- 1 to 253 bytes: parts joined by points
unfoldable pub is_subdomain : Bool → List ℕ → Bool
is_subdomain any_case name = has_length 1 253 name && list_all (is_dns_part any_case) (slice_split (λ byte. byte == point) name)

-- of lowercase letters
abbrev pub is_dns_subdomain : List ℕ → Bool
is_dns_subdomain name = is_subdomain false name

-- from `!` to `~`, and neither `/` nor `%`
abbrev pub is_role_byte : ℕ → Bool
is_role_byte byte = nat_le 33 byte && (nat_le byte 126 && (not (byte == slash) && not (byte == percent)))

-- `.` or `..`
abbrev pub is_points : List ℕ → Bool
is_points name = bytes_eq name (codes ".") || bytes_eq name (codes "..")

-- 1 to 253 such bytes, and neither `.` nor `..`
unfoldable pub is_role_name : List ℕ → Bool
is_role_name name = has_length 1 253 name && (list_all is_role_byte name && not (is_points name))

-- a letter or a digit
abbrev pub is_alphanumeric : ℕ → Bool
is_alphanumeric byte = is_lower byte || (is_upper byte || is_digit byte)

-- a letter, a digit, `-`, `_` or `.`
abbrev pub is_qualified_byte : ℕ → Bool
is_qualified_byte byte = is_alphanumeric byte || (byte == dash || (byte == underscore || byte == point))

-- 1 to 63 letters, digits, `-`, `_` and `.`, with a letter or digit at either end
unfoldable pub is_qualified_part : List ℕ → Bool
is_qualified_part name = has_length 1 63 name && (list_all is_qualified_byte name && has_ends is_alphanumeric name)

-- where the first `/` is
abbrev pub first_slash : List ℕ → Option ℕ
first_slash key = position (λ byte. byte == slash) key

-- a name, or a subdomain, `/` and a name, by where the first `/` is
abbrev pub is_key_cut_at : Bool → List ℕ → Option ℕ → Bool
is_key_cut_at any_case key None = is_qualified_part key
is_key_cut_at any_case key (Some slash) = is_subdomain any_case (take slash key) && is_qualified_part (drop (slash + 1) key)

-- a name, or a subdomain, `/` and a name
unfoldable pub is_key : Bool → List ℕ → Bool
is_key any_case key = is_key_cut_at any_case key (first_slash key)

-- the subdomain, if any, has lowercase letters
abbrev pub is_label_key : List ℕ → Bool
is_label_key key = is_key false key

-- the subdomain of an annotation's key may have uppercase letters
abbrev pub is_annotation_key : List ℕ → Bool
is_annotation_key key = is_key true key

-- empty, or as the name in a key
abbrev pub is_label_value : List ℕ → Bool
is_label_value value = nat_eq (length value) 0 || is_qualified_part value

-- the grammar of a kind's names. For Services it is wider than in Kubernetes
abbrev pub is_name_of : Kind → List ℕ → Bool
is_name_of Namespace name = is_dns_label name
is_name_of SubnamespaceAnchor name = is_dns_label name
is_name_of Role name = is_role_name name
is_name_of RoleBinding name = is_role_name name
is_name_of _ name = is_dns_subdomain name
