mod Verifying
