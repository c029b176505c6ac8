-- The worked certificate of version 3.
use Rattle.std.proofs.Common.{◌≡◌, ℕ, List, Result, Ok, refl, sym}
use Rattle.std.specs.Prelude.{codes}
use Rattle.cert_value.specs.Certificates.{CertificateValue}
use Rattle.cert_text.specs.declared.fault.CertFault.{CertFault}
use Rattle.cert_text.specs.Lamp.{lamp_text, lamp_text_with, lamp_certificate}
use Rattle.cert_text.specs.Pieces.{pieces}
use Rattle.cert_text.specs.Spelling.{spelling}
use Rattle.cert_text.specs.Reading.{line_at, repeated, digits_after, numbers_behind, distance_in, increases_from, filled_behind, fixed_at, count_at, header_at, kind_at, bound_of, bound_at, atom_of, atom_at, atoms_at, variable_of, variable_at, variables_at, parts_at, classes_of, sharing_of, sharing_at, classes_step, all_classes_at, classes_at, columns_at, entry_of, entry_at, entry_step, closed_at, end_at, certificate_at, certificate_of}
use Rattle.cert_text.proofs.FoundAll.{certificate_found}

-- reading a text; a proof that names `read` on its line `unfolding` computes with all that the line here names
unfoldable pub read : List ℕ → Result CertificateValue CertFault
unfolding pieces line_at repeated digits_after numbers_behind distance_in increases_from filled_behind fixed_at count_at header_at kind_at bound_of bound_at atom_of atom_at atoms_at variable_of variable_at variables_at parts_at classes_of sharing_of sharing_at classes_step all_classes_at classes_at columns_at entry_of entry_at entry_step closed_at end_at certificate_at certificate_of
read bytes = certificate_of bytes

lamp_read : certificate_of (lamp_text_with (codes "2 0 0")) ≡ Ok lamp_certificate
unfolding read lamp_text lamp_text_with lamp_certificate
lamp_read = refl

-- the text that is read as a certificate is that of the certificate
pub lamp_written : spelling lamp_certificate ≡ lamp_text_with (codes "2 0 0")
lamp_written = sym (certificate_found (lamp_text_with (codes "2 0 0")) lamp_certificate lamp_read).1
