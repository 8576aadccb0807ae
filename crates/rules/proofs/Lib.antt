mod Mailed
